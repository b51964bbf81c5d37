mod Disps
mod EmptySlots
mod FirstParts
mod Growing
mod Seatings
