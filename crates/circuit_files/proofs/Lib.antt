mod Failing
mod Texts
