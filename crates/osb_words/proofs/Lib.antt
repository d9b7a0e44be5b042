mod Explaining
mod Flags
