mod Changed
mod Storing
mod Standing
mod Foreseen
