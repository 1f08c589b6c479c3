mod Items
mod Ends
mod Whole
