mod Printing
mod Refusing
