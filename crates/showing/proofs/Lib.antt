mod Amounts
mod Escapes
