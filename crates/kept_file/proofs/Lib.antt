mod Refused
