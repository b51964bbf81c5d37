mod Choices
mod Numbers
mod Placing
mod Reading
mod WordPlaces
