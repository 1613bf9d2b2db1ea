-- Each context of a described agent is whole.
use Rattle.std.proofs.Common.{◌≡◌, true, ◌&&◌, map}
use Rattle.std.specs.List.{list_all}
use Rattle.x5_model.specs.Words.{distinct}
use Rattle.x5_model.specs.Keys.{same_key}
use Rattle.x5_model.specs.Values.{key_of}
use Rattle.x5_model.proofs.KeyLaws.{key_decides}
use Rattle.x5_model.proofs.Lists.{both_true, and_true, of_all, all_in}
use Rattle.x5_model.proofs.Decide.{once_decides}
use Rattle.x5_model_tree.specs.World.{Context, Agent, World}
use Rattle.x5_model_tree.specs.Tree.{keys_of}
use Rattle.x5_model_tree.specs.Described.{is_agent_name, is_rooted, is_kept, is_nssr, is_context, is_agent, are_references, IsDescribed}
use Rattle.x5_model_tree.proofs.Grown.{context_grown}
use Rattle.x5_agents.specs.Growing.{is_whole}

context_whole : (w : World) (c : Context) → is_context w c ≡ true → is_whole c ≡ true
context_whole w c h =
    let a = both_true (is_rooted c c.entries) (list_all is_kept c.entries && (list_all (is_nssr w c) c.nssrs && distinct same_key (map (λ n. key_of n.at) c.nssrs))) h in
    let b = both_true (list_all is_kept c.entries) (list_all (is_nssr w c) c.nssrs && distinct same_key (map (λ n. key_of n.at) c.nssrs)) a.1 in
    and_true (is_rooted c c.entries) (list_all is_kept c.entries && distinct same_key (keys_of c.entries)) a.0
    (and_true (list_all is_kept c.entries) (distinct same_key (keys_of c.entries)) b.0
    ((once_decides same_key key_decides (keys_of c.entries)).1 (context_grown w c h).once))

agent_whole : (w : World) (a : Agent) → is_agent w a ≡ true → list_all is_whole a.contexts ≡ true
agent_whole w a h =
    let b = both_true (is_agent_name a.name) (list_all (is_context w) a.contexts && (are_references w a.subordinate && are_references w a.cross)) h in
    let cs = both_true (list_all (is_context w) a.contexts) (are_references w a.subordinate && are_references w a.cross) b.1 in
    all_in is_whole a.contexts (λ c i. context_whole w c (of_all (is_context w) c a.contexts cs.0 i))

pub all_whole : (w : World) → IsDescribed w → list_all (λ a. list_all is_whole a.contexts) w.agents ≡ true
all_whole w d = all_in (λ (a : Agent). list_all is_whole a.contexts) w.agents (λ a i. agent_whole w a (of_all (is_agent w) a w.agents d.agents i))
