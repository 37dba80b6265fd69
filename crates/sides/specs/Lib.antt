-- What an operation of one side leaves, and one law for each operation that says so list by list.
pub mod Sides
pub mod SideArms
