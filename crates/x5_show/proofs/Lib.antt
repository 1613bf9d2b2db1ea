mod Values
mod Printing
