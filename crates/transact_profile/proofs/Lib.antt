mod Cased
mod Counting
mod JsonLists
mod Pushing
mod Selected
mod Tables
mod Worked
