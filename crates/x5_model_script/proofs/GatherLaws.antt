-- All words that are left, read one after another: one word more, a word at fault, and none.
use Rattle.std.proofs.Common.{◌≡◌, ℕ, ◌+◌, ◌<◌, ◌≤◌, true, false, List, [], ◌∷◌, length, Option, Result, Ok, Err, refl, sym, ◌∙◌, ap, arith, is_some}
use Rattle.x5_model.specs.Values.{Text}
use Rattle.x5_model.specs.Words.{first_of}
use Rattle.x5_model_script.specs.Words.{Fault, BadWord, ◌>>=◌, or_fault, Word, Left, sound}
use Rattle.x5_model_script.specs.Lines.{reading, gathered, gather}

abbrev left_of : List Word → ℕ → Left
left_of ws end = record { words = ws; end = end }

abbrev with_left : {A : Type 0} → Left → A → Result (A × Left) Fault
with_left left x = Ok (x, left)

abbrev read_word : {A : Type 0} → (Text → Option A) → Word × Left → Result (A × Left) Fault
read_word read v = or_fault (BadWord v.0.column) (read v.0.text) >>= with_left v.1

-- what is read of a word that is looked at, with these words behind it
abbrev read_by : {A : Type 0} → (Text → Option A) → Left → Result Word Fault → Result (A × Left) Fault
read_by read behind s = (s >>= with_left behind) >>= read_word read

abbrev gathered_by : {A B : Type 0} → (Text → Option A) → (A → B → B) → B → List Word → Result Word Fault
    → Result B Fault
gathered_by read put before ws s = s >>= (λ word. or_fault (BadWord word.column) (read word.text) >>= (λ x. gathered read put (put x before) ws))

same_ok : {X : Type 0} (a b : X) (r : Result X Fault) → r ≡ Ok a → r ≡ Ok b → a ≡ b
same_ok a b r p q = cc

abbrev paired : {A : Type 0} → A → Left → A × Left
paired x left = (x, left)

same_pair : {A : Type 0} (x y : A) (l m : Left) → with_left l x ≡ Ok (y, m) → (x ≡ y) × (l ≡ m)
same_pair {A} x y l m h =
    let both : paired x l ≡ paired y m = same_ok (paired x l) (paired y m) (with_left l x) refl h in
    (ap (λ (p : A × Left). p.0) both, ap (λ (p : A × Left). p.1) both)

-- one word more

more_found : {A B : Type 0} (read : Text → Option A) (put : A → B → B) (before : B) (ws : List Word) (behind after : Left) (x : A) (r : Result A Fault)
    → behind.words ≡ ws → (r >>= with_left behind) ≡ Ok (x, after)
    → (r >>= (λ y. gathered read put (put y before) ws)) ≡ gathered read put (put x before) after.words
more_found read put before ws behind after x (Err e) same h = absurd (cc)
more_found {A} {B} read put before ws behind after x (Ok y) same h =
    let so = same_pair y x behind after h in
    ap (λ z. gathered read put (put z before) ws) so.0 ∙ ap (gathered read put (put x before)) (sym same ∙ ap (λ (l : Left). l.words) so.1)

more_by : {A B : Type 0} (read : Text → Option A) (put : A → B → B) (before : B) (ws : List Word) (behind after : Left) (x : A) (s : Result Word Fault)
    → behind.words ≡ ws → read_by read behind s ≡ Ok (x, after)
    → gathered_by read put before ws s ≡ gathered read put (put x before) after.words
more_by read put before ws behind after x (Err e) same h = absurd (cc)
more_by read put before ws behind after x (Ok word) same h = more_found read put before ws behind after x (or_fault (BadWord word.column) (read word.text)) same h

more_from : {A B : Type 0} (read : Text → Option A) (put : A → B → B) (before : B) (ws : List Word) (end : ℕ) (after : Left) (x : A)
    → reading read BadWord (left_of ws end) ≡ Ok (x, after)
    → gathered read put before ws ≡ gathered read put (put x before) after.words
more_from read put before [] end after x h = absurd (cc)
more_from read put before (w ∷ ws) end after x h = more_by read put before ws (left_of ws end) after x (sound w) refl h

pub one_gathered : {A B : Type 0} (read : Text → Option A) (put : A → B → B) (before : B) (left after : Left) (x : A)
    → reading read BadWord left ≡ Ok (x, after)
    → gathered read put before left.words ≡ gathered read put (put x before) after.words
one_gathered read put before left after x h = more_from read put before left.words left.end after x h

-- a word at fault

stop_found : {A B : Type 0} (read : Text → Option A) (put : A → B → B) (before : B) (ws : List Word) (behind : Left) (fault : Fault) (r : Result A Fault)
    → (r >>= with_left behind) ≡ Err fault → (r >>= (λ y. gathered read put (put y before) ws)) ≡ Err fault
stop_found read put before ws behind fault (Err e) h = cc
stop_found read put before ws behind fault (Ok y) h = absurd (cc)

stop_by : {A B : Type 0} (read : Text → Option A) (put : A → B → B) (before : B) (ws : List Word) (behind : Left) (fault : Fault) (s : Result Word Fault)
    → read_by read behind s ≡ Err fault → gathered_by read put before ws s ≡ Err fault
stop_by read put before ws behind fault (Err e) h = cc
stop_by read put before ws behind fault (Ok word) h = stop_found read put before ws behind fault (or_fault (BadWord word.column) (read word.text)) h

pub fault_gathered : {A B : Type 0} (read : Text → Option A) (put : A → B → B) (before : B) (left : Left) (fault : Fault)
    → true ≡ is_some (first_of left.words) → reading read BadWord left ≡ Err fault
    → gathered read put before left.words ≡ Err fault
fault_gathered read put before left fault some h = by left.words some h
  where
    by : (ws : List Word) → true ≡ is_some (first_of ws) → reading read BadWord (left_of ws left.end) ≡ Err fault
        → gathered read put before ws ≡ Err fault
    by [] some h = absurd (cc)
    by (w ∷ ws) some h = stop_by read put before ws (left_of ws left.end) fault (sound w) h

-- no word

pub none_gathered : {A B : Type 0} (read : Text → Option A) (put : A → B → B) (before : B) (ws : List Word)
    → false ≡ is_some (first_of ws) → (gathered read put before ws ≡ Ok before) × (ws ≡ [])
none_gathered read put before [] h = (refl, refl)
none_gathered read put before (w ∷ ws) h = absurd (cc)

-- what is behind a word

behind_by : {A : Type 0} (read : Text → Option A) (behind after : Left) (x : A) (s : Result Word Fault)
    → read_by read behind s ≡ Ok (x, after) → after ≡ behind
behind_by read behind after x (Err e) h = absurd (cc)
behind_by {A} read behind after x (Ok word) h = found (or_fault (BadWord word.column) (read word.text)) h
  where
    found : (r : Result A Fault) → (r >>= with_left behind) ≡ Ok (x, after) → after ≡ behind
    found (Err e) h = absurd (cc)
    found (Ok y) h = sym (same_pair y x behind after h).1

pub one_behind : {A : Type 0} (read : Text → Option A) (left after : Left) (x : A)
    → reading read BadWord left ≡ Ok (x, after)
    → (length after.words + 1 ≤ length left.words) × (after.end ≡ left.end)
one_behind read left after x h = by left.words h
  where
    by : (ws : List Word) → reading read BadWord (left_of ws left.end) ≡ Ok (x, after)
        → (length after.words + 1 ≤ length ws) × (after.end ≡ left.end)
    by [] h = absurd (cc)
    by (w ∷ ws) h =
        let e : after ≡ left_of ws left.end = behind_by read (left_of ws left.end) after x (sound w) h in
        let n : length after.words ≡ length ws = ap (λ (l : Left). length l.words) e in
        (omega arith, ap (λ (l : Left). l.end) e)

-- ---- a reader that has gathered so much of the words, with some that are left

pub gather_step : {A B : Type 0} (read : Text → Option A) (put : A → B → B) (start : B) (left : Left) (done more : B) (now after : Left) (x : A)
    → reading read BadWord now ≡ Ok (x, after) → more ≡ put x done
    → gathered read put done now.words ≡ gathered read put start left.words
    → gathered read put more after.words ≡ gathered read put start left.words
gather_step read put start left done more now after x h e so =
    ap (λ b. gathered read put b after.words) e ∙ sym (one_gathered read put done now after x h) ∙ so

pub gather_done : {A B : Type 0} (read : Text → Option A) (put : A → B → B) (start : B) (left : Left) (done : B) (now : Left)
    → false ≡ is_some (first_of now.words) → now.end ≡ left.end
    → gathered read put done now.words ≡ gathered read put start left.words
    → gather read put start left ≡ Ok (done, now)
gather_done {A} {B} read put start left done now none end so =
    let last = none_gathered read put done now.words none in
    ap (λ (r : Result B Fault). r >>= with_left (left_of [] left.end)) (sym so ∙ last.0)
    ∙ ap (λ (ws : List Word). with_left (left_of ws left.end) done) (sym last.1)
    ∙ ap (λ (n : ℕ). with_left (left_of now.words n) done) (sym end)

pub gather_fault : {A B : Type 0} (read : Text → Option A) (put : A → B → B) (start : B) (left : Left) (done : B) (now : Left) (fault : Fault)
    → true ≡ is_some (first_of now.words) → gathered read put done now.words ≡ gathered read put start left.words
    → reading read BadWord now ≡ Err fault → gather read put start left ≡ Err fault
gather_fault {A} {B} read put start left done now fault some so h =
    ap (λ (r : Result B Fault). r >>= with_left (left_of [] left.end)) (sym so ∙ fault_gathered read put done now fault some h)

pub below : (m n : ℕ) → m + 1 ≤ n → m < n
below m n h = omega arith
