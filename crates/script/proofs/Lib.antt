mod Examples
mod Naming
