mod Taking
mod Readings
mod Batches
mod Sharing
mod EachGiven
mod Wholes
mod Cuts
