pub mod PutsOf
