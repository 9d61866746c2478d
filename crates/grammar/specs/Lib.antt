pub mod Trees
pub mod Grammar
pub mod Automaton
pub mod Laws
