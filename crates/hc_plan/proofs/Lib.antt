mod Before
mod Counting
mod Equalities
mod OnPath
