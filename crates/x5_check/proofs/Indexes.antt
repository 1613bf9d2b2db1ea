-- An index says what the rows say that were added to it.
use Rattle.std.proofs.Common.{◌≡◌, ℕ, Bool, true, false, ◌&&◌, ◌||◌, ◌==◌, List, [], ◌∷◌, Option, None, Some, refl, sym, ap, subst, ◌∙◌}
use Rattle.std.specs.Prelude.{cond, is_some}
use Rattle.indexmap.specs.IndexMap.{IndexMap, get}
use Rattle.x5_model.specs.Words.{some_and}
use Rattle.x5_model.specs.Keys.{Key, same_key}
use Rattle.x5_model.proofs.KeyLaws.{key_decides}
use Rattle.x5_check.specs.Rows.{KeyRow, Numbers, numbers_of, same_row}
use Rattle.x5_check.specs.Indexed.{either, indexed}

pub none_of : {A : Type 0} (o : Option A) → is_some o ≡ false → o ≡ None
none_of None e = refl
none_of (Some x) e = cc

swapped : (a m : Bool) → (a || m) ≡ ((false || m) || ((true && a) || false))
swapped true true = refl
swapped true false = refl
swapped false true = refl
swapped false false = refl

alone : (a : Bool) → a ≡ (a || false)
alone true = refl
alone false = refl

joined : (a r b : Bool) → ((a || (r || false)) || b) ≡ (a || (r || b))
joined true r b = refl
joined false true b = refl
joined false false b = refl

-- a key that the map lacked has the row's number from then on
module _ {S : Type 0} (old new : IndexMap Key ℕ S) (more : List KeyRow) (row : KeyRow) (lacks : get same_key old row.0 ≡ None)
    (puts : (q : Key) → get same_key new q ≡ cond (same_key row.0 q) (Some row.1) (get same_key old q)) where
  at : (key : Key) (number : ℕ) (b : Bool) → same_key row.0 key ≡ b
      → indexed new more key number ≡ either (indexed old more) (numbers_of (row ∷ [])) key number
  at key number true e =
      let is : row.0 ≡ key = (key_decides row.0 key).0 e in
      let none : get same_key old key ≡ None = subst (λ (k : Key). get same_key old k ≡ None) is lacks in
      let some : get same_key new key ≡ Some row.1 =
      puts key ∙ ap (λ (c : Bool). cond c (Some row.1) (get same_key old key)) e in
      ap (λ (o : Option ℕ). some_and (λ n. n == number) o || numbers_of more key number) some
      ∙ swapped (row.1 == number) (numbers_of more key number)
      ∙ sym (λ i. (some_and (λ n. n == number) (none i) || numbers_of more key number) || ((e i && (row.1 == number)) || false))
  at key number false e =
      let same : get same_key new key ≡ get same_key old key =
      puts key ∙ ap (λ (c : Bool). cond c (Some row.1) (get same_key old key)) e in
      ap (λ (o : Option ℕ). some_and (λ n. n == number) o || numbers_of more key number) same
      ∙ alone (some_and (λ n. n == number) (get same_key old key) || numbers_of more key number)
      ∙ sym (λ i. (some_and (λ n. n == number) (get same_key old key) || numbers_of more key number) || ((e i && (row.1 == number)) || false))

  pub added : indexed new more ≡ either (indexed old more) (numbers_of (row ∷ []))
  added = λ i key number. at key number (same_key row.0 key) refl i

-- what is said of a row and of those behind it
pub one_more : (a : Numbers) (row : KeyRow) (rows : List KeyRow)
    → either (either a (numbers_of (row ∷ []))) (numbers_of rows) ≡ either a (numbers_of (row ∷ rows))
one_more a row rows = λ i key number. joined (a key number) (same_row row (key, number)) (numbers_of rows key number) i

pub no_more : (a : Numbers) → either a (numbers_of []) ≡ a
no_more a = λ i key number. sym (alone (a key number)) i
