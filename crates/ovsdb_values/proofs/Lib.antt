mod JsonLists
mod Ids
mod InOrder
mod Few
mod Carried
mod Members
mod ReadBack
mod Worked
