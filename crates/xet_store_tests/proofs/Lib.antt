mod Xorbs
