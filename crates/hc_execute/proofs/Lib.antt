mod Doing
mod Meaning
