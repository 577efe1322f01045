mod Making
mod Stepped
mod Turning
mod Calling
mod Chaining
