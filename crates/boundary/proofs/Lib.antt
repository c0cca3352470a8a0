mod Ciphering
