-- For private clauses: two texts, as the definitions have them.
use Rattle.std.specs.Borrow.{Bor}
use Rattle.std.specs.Prelude.{ℕ, List}
use Rattle.x5_model_world.specs.NetworkText.{Texts}

abbrev pub texts_of : (Bor (List ℕ) × Bor (List ℕ)) → Texts
texts_of p = (p.0.now, p.1.now)
