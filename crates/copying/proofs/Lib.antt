mod Pasting
