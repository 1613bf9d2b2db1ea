-- What is written over a part of a list, and two parts that change places; an RDN that is replaced.
use Rattle.std.proofs.Common.{◌≡◌, ℕ, suc, ◌+◌, ◌-◌, ◌<◌, List, ◌∷◌, ◌++◌, length, take, drop, set, refl, sym, ap, ◌∙◌, arith}
use Rattle.std.proofs.lemmas.List.{append_assoc, length-append, take_at, drop_at, set_split}
use Rattle.std.proofs.lemmas.List.Edits.{paste_all}
use Rattle.std.proofs.lemmas.Slice.{put_mid-paste}
use Rattle.x5_model.specs.Entries.{Named}
use Rattle.x5_model.specs.Values.{Rdn, Name}
use Rattle.x5_model_tree.specs.Apply.{respelled}
use Rattle.x5_one.specs.Moving.{IsTurned}
use Rattle.x5_one.proofs.Moving.{drop_on}
use borrow.Rule.Slice.PartMut.{put_mid}

pub put_mid_is : {X : Type 0} (a k : ℕ) (xs ys : List X) → k ≡ length ys
    → put_mid a k xs ys ≡ take a xs ++ (ys ++ drop (a + k) xs)
put_mid_is a k xs ys l = put_mid-paste a k xs ys ys k refl refl l ∙ paste_all xs a ys k l

pub turned : (from middle to : ℕ) (xs ys : List Named)
    → ys ≡ drop (middle - from) (take (to - from) (drop from xs)) ++ take (middle - from) (take (to - from) (drop from xs))
    → IsTurned from middle to xs (put_mid from (to - from) xs ys)
turned from middle to xs ys made front earlier later rest is lf le ll =
    put_mid_is from (to - from) xs ys count
    ∙ (λ i. first i ++ (both i ++ last i))
    ∙ ap (λ (zs : List Named). front ++ zs) (append_assoc later earlier rest)
  where
    first : take from xs ≡ front
    first = ap (take from) is ∙ take_at front (earlier ++ (later ++ rest)) from lf

    behind : drop from xs ≡ (earlier ++ later) ++ rest
    behind = ap (drop from) is ∙ drop_at front (earlier ++ (later ++ rest)) from lf ∙ sym (append_assoc earlier later rest)

    long : length (earlier ++ later) ≡ to - from
    long = (let a = length-append earlier later in omega (arith, a))

    part : take (to - from) (drop from xs) ≡ earlier ++ later
    part = ap (take (to - from)) behind ∙ take_at (earlier ++ later) rest (to - from) long

    early : length earlier ≡ middle - from
    early = omega arith

    both : ys ≡ later ++ earlier
    both =
        made
        ∙ (λ i. drop (middle - from) (part i) ++ take (middle - from) (part i))
        ∙ (λ i. drop_at earlier later (middle - from) early i ++ take_at earlier later (middle - from) early i)

    last : drop (from + (to - from)) xs ≡ rest
    last = sym (drop_on (to - from) from xs) ∙ ap (drop (to - from)) behind
        ∙ drop_at (earlier ++ later) rest (to - from) long

    count : to - from ≡ length ys
    count = (let a : length ys ≡ length later + length earlier = ap length both ∙ length-append later earlier in
        omega arith)

pub respelled_is : (i : ℕ) (rdn : Rdn) (name : Name) → i < length name → set name i rdn ≡ respelled i rdn name
respelled_is i rdn name l =
    set_split name i rdn l ∙ ap (λ (n : ℕ). take i name ++ rdn ∷ drop n name) (let s : suc i ≡ i + 1 = omega arith in s)
