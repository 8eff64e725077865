mod Classes
mod GroupClasses
mod Judgements
mod ScopeReads
mod Trees
mod Values
