mod Answered
mod Listed
mod Longer
mod Parted
mod Sent
mod Shared
