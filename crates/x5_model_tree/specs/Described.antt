-- What every world that was read from a file meets (docs/FORMATS.md, world file), whether its knowledge is consistent
-- or not: what can be said of agents, contexts, entries and references one by one, and the limits. The ten conditions
-- say the rest. Agents' names, limits, agreements' numbers and the network are this project's own.
use Rattle.std.specs.Prelude.{ℕ, ◌+◌, Bool, true, false, not, ◌&&◌, ◌||◌, ◌==◌, nat_lt, nat_le, IsTrue, List, [], ◌∷◌}
use Rattle.std.specs.Prelude.{◌++◌, length, map, codes}
use Rattle.std.specs.Cmp.Lexicographic.{pointwise}
use Rattle.std.specs.Char.{is_ascii_alphabetic, is_ascii_alphanumeric}
use Rattle.std.specs.List.{list_all, list_any, find, filter, flat_map}
use Rattle.std.specs.Option.{is_none}
use Rattle.std.specs.declared.result.Result.{Result}
use Rattle.std.specs.declared.result.Result.TheVariants.{Ok, Err}
use Rattle.x5_model.specs.Words.{distinct, is_empty, some_and, in_option, same_octets}
use Rattle.x5_model.specs.Keys.{same_key}
use Rattle.x5_model.specs.Values.{Text, StoredValue, Pair, Name, key_of, last_rdn, name_above, written}
use Rattle.x5_model.specs.Types.{is_known, kind_of}
use Rattle.x5_model.specs.Normal.{ValueFault, is_name, name_over, normal_of, stored}
use Rattle.x5_model.specs.Entries.{Stored, Entry, Named}
use Rattle.x5_model.specs.Attributes.{is_ordered, has_rdn}
use Rattle.x5_model.specs.Statics.{entry_refusals}
use Rattle.x5_model_tree.specs.World.{Specific, Nssr, Context, Agent, Agreement, World}
use Rattle.x5_model_tree.specs.Tree.{key_at, is_there}
use Rattle.x5_model_tree.specs.Masters.{pin_of, mastered, all_entries}

-- ---- names and values: each has the normal form of its text, so that what is printed and what is compared can't part

-- names that are spelled alike too
abbrev pub same_pair_spelled : Pair → Pair → Bool
same_pair_spelled a b = (a.kind == b.kind) && (same_octets a.text b.text && same_octets a.normal b.normal)

abbrev pub same_spelling : Name → Name → Bool
same_spelling a b = pointwise (pointwise same_pair_spelled) a b

-- a name of types that may name, in their order, within the limits of names (16 RDNs, four pairs an RDN, 1,024 octets a
-- value)
abbrev pub is_stored : Name → Bool
is_stored n = same_spelling n (stored (written n)) && (is_name (written n) && is_none (name_over 0 (written n)))

-- a value of the type's kind, within its limit
abbrev pub is_normal : Result (List ℕ) ValueFault → List ℕ → Bool
is_normal (Ok normal) octets = same_octets normal octets
is_normal (Err fault) octets = false

abbrev pub is_stored_value : ℕ → StoredValue → Bool
is_stored_value kind v = is_normal (normal_of (kind_of kind) v.value) v.normal

-- an attribute's type is one of the table, by its number; another has no number
abbrev pub is_stored_attribute : Stored → Bool
is_stored_attribute a = is_known a.kind && list_all (is_stored_value a.kind) a.values

abbrev pub is_stored_entry : Named → Bool
is_stored_entry e = is_stored e.name && list_all is_stored_attribute e.entry.attributes

abbrev pub is_stored_context : Context → Bool
is_stored_context c =
    is_stored c.prefix && (list_all is_stored_entry c.entries && list_all (λ n. is_stored n.at) c.nssrs)

abbrev pub is_stored_agent : Agent → Bool
is_stored_agent a =
    list_all is_stored_context a.contexts && (list_all (λ k. is_stored k.pin) a.subordinate
    && list_all (λ k. is_stored k.pin) a.cross)

abbrev pub is_stored_world : World → Bool
is_stored_world w = list_all is_stored_agent w.agents && list_all (λ g. is_stored g.context) w.agreements

-- ---- agents' names

-- ASCII letters, digits and `-`
abbrev pub is_name_octet : ℕ → Bool
is_name_octet b = is_ascii_alphanumeric b || (b == 45)

abbrev pub begins_with_letter : Text → Bool
begins_with_letter [] = false
begins_with_letter (b ∷ bs) = is_ascii_alphabetic b

-- one to 32 of them, the first a letter; `user` stands for the user, who is no agent
abbrev pub is_agent_name : Text → Bool
is_agent_name t =
    nat_le (length t) 32 && (begins_with_letter t && (list_all is_name_octet t && not (same_octets t (codes "user"))))

-- ---- contexts

-- a name of an entry has one RDN at least
abbrev pub is_entry_name : Name → Bool
is_entry_name n = not (is_empty n)

-- An entry's attributes are in order, each value once, and among them are the values of its RDN; what an addEntry would
-- be refused for by itself isn't so (X.511, section 11.1): it has an object class, and one value at most of a
-- single-valued type.
abbrev pub is_kept : Named → Bool
is_kept e =
    is_entry_name e.name && (is_ordered e.entry && (has_rdn e.entry (last_rdn e.name)
    && is_empty (entry_refusals e.entry)))

-- the parent of each later entry stands before it, and the name above is spelled as the parent's; no key stands twice
abbrev pub is_grown : List Named → List Named → Bool
is_grown before [] = true
is_grown before (e ∷ more) =
    list_any (λ f. same_spelling f.name (name_above e.name)) before
    && (not (is_there before (key_at e)) && is_grown (e ∷ before) more)

-- the first entry is the context prefix's
abbrev pub is_rooted : Context → List Named → Bool
is_rooted c [] = false
is_rooted c (e ∷ more) = same_spelling c.prefix e.name && is_grown (e ∷ []) more

-- the agents are agents of the world
abbrev pub are_agents : World → List ℕ → Bool
are_agents w agents = list_all (λ a. nat_lt a (length w.agents)) agents

abbrev pub is_nssr : World → Context → Nssr → Bool
is_nssr w c n = is_there c.entries (key_of n.at) && (not (is_empty n.agents) && are_agents w n.agents)

abbrev pub is_context : World → Context → Bool
is_context w c =
    is_rooted c c.entries && (list_all is_kept c.entries
    && (list_all (is_nssr w c) c.nssrs && distinct same_key (map (λ n. key_of n.at) c.nssrs)))

-- ---- references

abbrev pub most_shadows : ℕ
most_shadows = 8

abbrev pub most_references : ℕ
most_references = 4096

-- references name an entry's name, and no two of one kind have the same key
abbrev pub is_reference : World → Specific → Bool
is_reference w r =
    is_entry_name r.pin
    && (nat_lt r.access.master (length w.agents) && (are_agents w r.access.shadows
    && nat_le (length r.access.shadows) most_shadows))

abbrev pub are_references : World → List Specific → Bool
are_references w rs = list_all (is_reference w) rs && distinct same_key (map (λ r. key_of r.pin) rs)

-- the order of the file counts each reference of an agent once
abbrev pub are_listed : Agent → Bool
are_listed a =
    (length (filter not a.crosses) == length a.subordinate)
    && ((length (filter (λ b. b) a.crosses) == length a.cross) && nat_le (length a.crosses) most_references)

-- ---- agents and agreements

abbrev pub is_agent : World → Agent → Bool
is_agent w a =
    is_agent_name a.name && (list_all (is_context w) a.contexts
    && (are_references w a.subordinate && are_references w a.cross))

abbrev pub has_superior : World → Agent → Bool
has_superior w a = not (some_and (λ s. not (nat_lt s (length w.agents))) a.superior)

-- numbers from 1 to 1,000,000
abbrev pub is_number : ℕ → Bool
is_number n = nat_lt 0 n && nat_le n 1000000

abbrev pub is_agreement : World → Agreement → Bool
is_agreement w g =
    is_number g.number && (is_entry_name g.context
    && (nat_lt g.supplier (length w.agents) && nat_lt g.consumer (length w.agents)))

-- ---- limits of the world

abbrev pub most_agents : ℕ
most_agents = 64

abbrev pub most_agreements : ℕ
most_agreements = 64

abbrev pub most_contexts : ℕ
most_contexts = 4096

-- the agents of NSSRs, each as often as it stands in one
abbrev pub most_nssr_agents : ℕ
most_nssr_agents = 4096

abbrev pub nssr_agents : World → List ℕ
nssr_agents w = flat_map (λ m. flat_map (λ n. n.agents) m.context.nssrs) (mastered w)

-- entries, and entries together with the copies that the agreements give
abbrev pub most_entries : ℕ
most_entries = 100000

abbrev pub most_with_copies : ℕ
most_with_copies = 400000

abbrev pub copied : World → Agreement → List Named
copied w g = in_option [] (λ m. m.context.entries) (find (λ m. same_key (pin_of m) (key_of g.context)) (mastered w))

abbrev pub is_within_limits : World → Bool
is_within_limits w =
    nat_le (length w.agents) most_agents
    && (nat_le (length w.agreements) most_agreements
    && (nat_le (length (mastered w)) most_contexts
    && (nat_le (length (nssr_agents w)) most_nssr_agents
    && (nat_le (length (all_entries w)) most_entries
    && nat_le (length (all_entries w ++ flat_map (copied w) w.agreements)) most_with_copies))))

-- ---- the network: agents and pairs of two agents, and numbers of messages, each once

abbrev pub most_cut : ℕ
most_cut = 2016

abbrev pub most_lost_messages : ℕ
most_lost_messages = 4096

abbrev pub most_lost_replies : ℕ
most_lost_replies = 16

-- in either order
abbrev pub same_pair : ℕ × ℕ → ℕ × ℕ → Bool
same_pair p q = ((p.0 == q.0) && (p.1 == q.1)) || ((p.0 == q.1) && (p.1 == q.0))

abbrev pub is_pair : World → ℕ × ℕ → Bool
is_pair w p = nat_lt p.0 (length w.agents) && (nat_lt p.1 (length w.agents) && not (p.0 == p.1))

abbrev pub are_numbers : ℕ → List ℕ → Bool
are_numbers most ns = list_all is_number ns && (distinct ◌==◌ ns && nat_le (length ns) most)

abbrev pub has_network : World → Bool
has_network w =
    (are_agents w w.network.down && distinct ◌==◌ w.network.down)
    && ((are_agents w w.network.refusing && distinct ◌==◌ w.network.refusing)
    && ((list_all (is_pair w) w.network.cut && (distinct same_pair w.network.cut
    && nat_le (length w.network.cut) most_cut))
    && (are_numbers most_lost_messages w.network.lost_messages
    && are_numbers most_lost_replies w.network.lost_replies)))

pub record IsDescribed (w : World) : Type 0 where
  pub agents_there : IsTrue (not (is_empty w.agents))
  pub names_apart : IsTrue (distinct same_octets (map (λ a. a.name) w.agents))
  pub agents : IsTrue (list_all (is_agent w) w.agents)
  pub superiors : IsTrue (list_all (has_superior w) w.agents)
  pub agreements : IsTrue (list_all (is_agreement w) w.agreements)
  pub numbers_apart : IsTrue (distinct ◌==◌ (map (λ g. g.number) w.agreements))
  pub stored : IsTrue (is_stored_world w)
  pub listed : IsTrue (list_all are_listed w.agents)
  pub limits : IsTrue (is_within_limits w)
  pub network : IsTrue (has_network w)
