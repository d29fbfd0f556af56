mod AnyHeader
mod Collectors
mod Readers
mod States
mod Told
mod Writers
