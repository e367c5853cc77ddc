mod Values
mod Numbers
mod Requests
mod Sites
mod Responses
mod Agreed
mod Askable
mod Visible
