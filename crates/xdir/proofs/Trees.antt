-- What the one tree prints grows by a block for each line, as the tree stands that the lines before have left.
use Rattle.std.proofs.Common.{◌≡◌, ◌≤◌, ◌+◌, ◌++◌, ◌⊎◌, inl, inr, ℕ, suc, List, [], ◌∷◌, length, map, codes, Option, refl, sym, ap, subst, ◌∙◌, arith, append-nil, append_assoc}
use Rattle.std.proofs.lemmas.List.{length-map}
use Rattle.x5_know.specs.Moments.{moment_text}
use Rattle.x5_model_output.specs.Output.{Names, names_of, knowledge_line}
use Rattle.x5_model_output.specs.Plain.{tree_after, plain_text, plain_texts, tree_text}
use Rattle.x5_model_run.specs.Run.{Command}
use Rattle.x5_model_script.specs.Lines.{Asked}
use Rattle.x5_model_tree.specs.Consistent.{IsConsistent, first_breach}
use Rattle.x5_model_tree.specs.Masters.{whole}
use Rattle.x5_model_tree.specs.Tree.{Tree}
use Rattle.x5_model_tree.proofs.FirstBreach.{consistent_has_none}
use Rattle.x5_model_world.specs.WorldFile.{File}
use Rattle.x5_port.specs.Outside.{Rose, with_octets, TookPrefix}
use Rattle.x5_port.proofs.Octets.{with_octets-with_octets}
use Rattle.xdir.proofs.Ends.{rose_later, took_after}
use Rattle.xdir.proofs.Mapped.{map-snoc}
use Rattle.xdir.specs.Outcomes.{Wrote}
use Rattle.xdir.specs.Tree.{plain_command, IsTreeText, IsTold, IsToldSoFar, TellsLines}
use Rattle.xdir.specs.declared.top.Status.TheVariants.{WriteFault, NoMemory}

-- the tree after these lines
abbrev pub trees_after : Tree → List Command → Tree
trees_after t [] = t
trees_after t (c ∷ cs) = trees_after (tree_after t c) cs

trees_after-snoc : (t : Tree) (cs : List Command) (c : Command) → trees_after t (cs ++ c ∷ []) ≡ tree_after (trees_after t cs) c
trees_after-snoc t [] c = refl
trees_after-snoc t (d ∷ ds) c = trees_after-snoc (tree_after t d) ds c

plain_texts-snoc : (names : Names) (n : ℕ) (t : Tree) (cs : List Command) (c : Command)
    → plain_texts names n t (cs ++ c ∷ []) ≡ plain_texts names n t cs ++ plain_text names (n + length cs) (trees_after t cs) c
plain_texts-snoc names n t [] c =
    append-nil (plain_text names n t c) ∙ ap (λ (k : ℕ). plain_text names k t c) (let z : n ≡ n + 0 = omega arith in z)
plain_texts-snoc names n t (d ∷ ds) c =
    ap (λ (more : List ℕ). plain_text names n t d ++ more) (plain_texts-snoc names (n + 1) (tree_after t d) ds c)
    ∙ sym (append_assoc (plain_text names n t d) (plain_texts names (n + 1) (tree_after t d) ds)
    (plain_text names (n + 1 + length ds) (trees_after (tree_after t d) ds) c))
    ∙ ap (λ (k : ℕ). (plain_text names n t d ++ plain_texts names (n + 1) (tree_after t d) ds)
    ++ plain_text names k (trees_after (tree_after t d) ds) c) (let z : n + 1 + length ds ≡ n + suc (length ds) = omega arith in z)

-- how agents and moments are printed
abbrev printing : File → Names
printing f = names_of f.world (moment_text f.start)

-- so many lines stand before
pub numbered : (asked : List Asked) (n : ℕ) → length asked ≡ n → (t : Tree) (c : Command) (block : List ℕ)
    → ((names : Names) → block ≡ plain_text names (n + 1) t c) → (names : Names) → block ≡ plain_text names (length asked + 1) t c
numbered asked n so t c block is names = is names ∙ ap (λ (k : ℕ). plain_text names (k + 1) t c) (sym so)

-- the output for these lines was written, and the tree is the one that they leave
pub record IsPrinted (f : File) (asked : List Asked) (t : Tree) (old now : Option (List ℕ)) : Type 0 where
  pub text : List ℕ
  pub is_text : IsTreeText f asked text
  pub leaves : t ≡ trees_after (whole f.world) (map plain_command asked)
  pub written : now ≡ with_octets text old

module _ (f : File) (consistent : IsConsistent f.world) where
  -- the line on knowledge
  pub of_nothing : (text : List ℕ) → text ≡ codes "knowledge consistent\n" → IsTreeText f [] text
  of_nothing text e =
      e
      ∙ sym (ap (knowledge_line (printing f)) (consistent_has_none f.world consistent))
      ∙ sym (append-nil (knowledge_line (printing f) (first_breach f.world)))

  pub begun : (text : List ℕ) (t : Tree) (old now : Option (List ℕ)) → text ≡ codes "knowledge consistent\n" → t ≡ whole f.world
      → now ≡ with_octets text old → IsPrinted f [] t old now
  begun text t old now e is w = record { text = text; is_text = of_nothing text e; leaves = is; written = w }

  -- the output for the first lines is that for all, or more are to come
  so_far : (asked first rest : List Asked) (text : List ℕ) → asked ≡ first ++ rest → IsTreeText f first text
      → IsTold f asked text ⊎ IsToldSoFar f asked text
  so_far asked first [] text parts prints =
      let all : asked ≡ first = parts ∙ append-nil first in
      inl (record { consistent = consistent; prints = subst (λ (lines : List Asked). IsTreeText f lines text) (sym all) prints })
  so_far asked first (a ∷ rest) text parts prints =
      inr (record { consistent = consistent; first = first; next = a; rest = rest; parts = parts; prints = prints })

  pub breaks_begun : (asked : List Asked) (text : List ℕ) (old new : Option (List ℕ)) (before after : ℕ)
      → text ≡ codes "knowledge consistent\n" → Rose before after → TookPrefix text old new
      → TellsLines WriteFault f asked old new before after
  breaks_begun asked text old new before after e rose part = (
    rose,
    record {
      text = text;
      is = inl (so_far asked [] asked text refl (of_nothing text e));
      part = part;
    },
  )

  -- one block more
  module _ (asked : List Asked) (a : Asked) (t : Tree) (old mid : Option (List ℕ)) (far : IsPrinted f asked t old mid) (block : List ℕ)
      (is : (names : Names) → block ≡ plain_text names (length asked + 1) t (plain_command a)) where
    grown : IsTreeText f (asked ++ a ∷ []) (far.text ++ block)
    grown =
        let cs : List Command = map plain_command asked in
        let c : Command = plain_command a in
        let line : List ℕ = knowledge_line (printing f) (first_breach f.world) in
        let place : length asked + 1 ≡ 1 + length cs = let same : length cs ≡ length asked = length-map asked plain_command in omega arith in
        ap (λ (x : List ℕ). x ++ block) far.is_text
        ∙ append_assoc line (plain_texts (printing f) 1 (whole f.world) cs) block
        ∙ ap (λ (x : List ℕ). line ++ (plain_texts (printing f) 1 (whole f.world) cs ++ x))
        (is (printing f)
        ∙ ap (λ (u : Tree). plain_text (printing f) (length asked + 1) u c) far.leaves
        ∙ ap (λ (k : ℕ). plain_text (printing f) k (trees_after (whole f.world) cs) c) place)
        ∙ sym (ap (λ (x : List ℕ). line ++ x) (plain_texts-snoc (printing f) 1 (whole f.world) cs c))
        ∙ sym (ap (tree_text f.world (moment_text f.start)) (map-snoc plain_command asked a))

    pub one_more : (u : Tree) (new : Option (List ℕ)) → u ≡ tree_after t (plain_command a) → new ≡ with_octets block mid
        → IsPrinted f (asked ++ a ∷ []) u old new
    one_more u new left written = record {
      text = far.text ++ block;
      is_text = grown;
      leaves =
          left
          ∙ ap (λ (x : Tree). tree_after x (plain_command a)) far.leaves
          ∙ sym (trees_after-snoc (whole f.world) (map plain_command asked) (plain_command a))
          ∙ sym (ap (trees_after (whole f.world)) (map-snoc plain_command asked a));
      written =
          written
          ∙ ap (λ (taken : Option (List ℕ)). with_octets block taken) far.written
          ∙ with_octets-with_octets far.text block old;
    }

    -- of which only a first part could be written
    pub breaks : (all rest : List Asked) (new : Option (List ℕ)) (begun before after : ℕ) → all ≡ asked ++ a ∷ rest → begun ≤ before
        → Rose before after → TookPrefix block mid new → TellsLines WriteFault f all old new begun after
    breaks all rest new begun before after parts le rose part = (
      rose_later begun before after le rose,
      record {
        text = far.text ++ block;
        is = inl (so_far all (asked ++ a ∷ []) rest (far.text ++ block) (parts ∙ sym (append_assoc asked (a ∷ []) rest)) grown);
        part = took_after far.text block old mid new far.written part;
      },
    )

  -- memory ran out
  pub stops : (all asked : List Asked) (a : Asked) (rest : List Asked) (t : Tree) (old mid : Option (List ℕ)) (before after : ℕ)
      → all ≡ asked ++ a ∷ rest → IsPrinted f asked t old mid → TellsLines NoMemory f all old mid before after
  stops all asked a rest t old mid before after parts far = inr (record {
    text = far.text;
    is = record { consistent = consistent; first = asked; next = a; rest = rest; parts = parts; prints = far.is_text };
    whole = far.written;
  })

  -- all lines are done
  pub told_all : (asked : List Asked) (t : Tree) (old new : Option (List ℕ)) → IsPrinted f asked t old new → Wrote (IsTold f asked) old new
  told_all asked t old new far =
      record { text = far.text; is = record { consistent = consistent; prints = far.is_text }; whole = far.written }
