mod Asking
mod Places
mod Recording
