mod Fixed
mod Found
mod Among
mod Walked
