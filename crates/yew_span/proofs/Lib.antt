mod Lower
mod Placing
mod Taking
