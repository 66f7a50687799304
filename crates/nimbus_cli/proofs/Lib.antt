mod Putting
mod WordLists
