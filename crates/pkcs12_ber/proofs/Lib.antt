mod Appended
mod Safes
mod Readings
mod Exits
mod MacPlaces
