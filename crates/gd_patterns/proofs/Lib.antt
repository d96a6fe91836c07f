mod Replied
mod Ends
