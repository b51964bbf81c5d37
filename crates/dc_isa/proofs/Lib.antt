mod WordLaws
mod Tables
mod LineWords
mod Digits
mod LabelLaws
mod Passes
mod Programs
