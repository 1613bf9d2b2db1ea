-- Over a described world the names of agents are letters, digits and `-`, and moments are digits; so neither has a line
-- feed.
use Rattle.std.proofs.Common.{◌≡◌, ℕ, zero, suc, ◌+◌, ◌/◌, ◌%◌, true, false, nat_le, List, [], ◌∷◌, length, refl, unsigned_abs, codes, arith}
use Rattle.std.proofs.lemmas.Bool.Decides.{nat_tests}
use Rattle.std.specs.Fmt.{decimal}
use Rattle.std.specs.List.{list_all, slice_get}
use Rattle.x5_know.specs.Moments.{Day, days_after, day_length, two_digits, four_digits, stamp_text}
use Rattle.x5_model.proofs.Lists.{both_true}
use Rattle.x5_model.specs.Values.{Text}
use Rattle.x5_model.specs.Words.{in_option}
use Rattle.x5_model_script.specs.Script.{is_line_feed}
use Rattle.x5_model_tree.specs.Described.{is_agent, is_agent_name, is_name_octet, begins_with_letter}
use Rattle.x5_model_tree.specs.World.{World, Agent}
use Rattle.x5_model_counted.specs.Laws.{DescribedAreOneLine}
use Rattle.x5_model_counted.proofs.Texts.{OneLine, one_octet, all_joined, decimal_one}

-- ---- names

name_octet : (b : ℕ) → is_name_octet b ≡ true → is_line_feed b ≡ false
name_octet b h = grind (arith, nat_tests)

octets_one : (t : Text) → list_all is_name_octet t ≡ true → OneLine t
octets_one [] h = refl
octets_one (b ∷ t) h =
    let both = both_true (is_name_octet b) (list_all is_name_octet t) h in
    one_octet b t (name_octet b both.0) (octets_one t both.1)

name_one : (t : Text) → is_agent_name t ≡ true → OneLine t
name_one t h =
    let first = both_true (nat_le (length t) 32) _ h in
    let second = both_true (begins_with_letter t) _ first.1 in
    octets_one t (both_true (list_all is_name_octet t) _ second.1).0

agent_one : (w : World) (agents : List Agent) (i : ℕ) → list_all (is_agent w) agents ≡ true
    → OneLine (in_option [] (λ (x : Agent). x.name) (slice_get agents i))
agent_one w [] i h = refl
agent_one w (a ∷ agents) zero h =
    let itself = both_true (is_agent w a) (list_all (is_agent w) agents) h in
    name_one a.name (both_true (is_agent_name a.name) _ itself.0).0
agent_one w (a ∷ agents) (suc i) h = agent_one w agents i (both_true (is_agent w a) (list_all (is_agent w) agents) h).1

-- ---- moments

two_one : (n : ℕ) → OneLine (two_digits n)
two_one n = all_joined (decimal (n / 10 % 10) ∷ decimal (n % 10) ∷ []) (decimal_one (n / 10 % 10), (decimal_one (n % 10), tt))

four_one : (n : ℕ) → OneLine (four_digits n)
four_one n =
    all_joined (decimal (n / 1000 % 10) ∷ decimal (n / 100 % 10) ∷ decimal (n / 10 % 10) ∷ decimal (n % 10) ∷ [])
    (decimal_one (n / 1000 % 10), (decimal_one (n / 100 % 10), (decimal_one (n / 10 % 10), (decimal_one (n % 10), tt))))

stamp_one : (d : Day) (second : ℕ) → OneLine (stamp_text d second)
stamp_one d second =
    all_joined (four_digits (unsigned_abs d.year) ∷ two_digits d.month ∷ two_digits d.day ∷ two_digits (second / 3600)
    ∷ two_digits (second / 60 % 60) ∷ two_digits (second % 60) ∷ codes "Z" ∷ []) (
      four_one (unsigned_abs d.year),
      (
        two_one d.month,
        (
          two_one d.day,
          (
            two_one (second / 3600),
            (
              two_one (second / 60 % 60),
              (two_one (second % 60), (refl, tt)),
            ),
          ),
        ),
      ),
    )

pub described_are_one_line : DescribedAreOneLine
described_are_one_line w start described = record {
  agents = λ a. agent_one w w.agents a described.agents;
  moments = λ m. stamp_one (days_after ((start.second + m) / day_length) start.day) ((start.second + m) % day_length);
}
