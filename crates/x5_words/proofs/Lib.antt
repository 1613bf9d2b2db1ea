mod Numbers
mod Examples
mod Walking
mod Leaves
mod Top
mod Unfit
mod Reading
