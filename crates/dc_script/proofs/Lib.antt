mod ShortLines
mod Rows
mod Counting
mod Validity
