-- Eighty words carried through a port. What to believe: Damage, Carried, Printed and Answers.
pub mod Damage
pub mod Carried
pub mod Printed
pub mod Answers
