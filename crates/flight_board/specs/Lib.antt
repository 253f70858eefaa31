pub mod Applied
pub mod Board
pub mod Flights
