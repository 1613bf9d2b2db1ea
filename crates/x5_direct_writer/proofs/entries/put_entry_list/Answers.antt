-- The entries are the members.
use Rattle.std.proofs.Common.{ap, map, sym, ◌∙◌}
use Rattle.std.proofs.Common.{refl}
use Rattle.x5_model_messages.specs.Shadows as shadows
use Rattle.x5_model_messages.specs.Terms.{node_of}
use Rattle.x5_model_typed.specs.Named as named
use Rattle.x5_direct_writer.proofs.Putting.{all_fail, all_put, by_error}
use Rattle.x5_direct_writer.proofs.entries.put_entry_list.Goals as goal

pub returns-in_err-put_entries : goal.returns-in_err-put_entries
returns-in_err-put_entries c =
    by_error named.Entries (node_of (map (shadows.entry_node) c.args.entries.now)) c.args.out.now c.put_entries.new.out c.in_err-put_entries.field-0.0 c.from_residual.result
    c.from_residual.ensures.1
    (all_fail 16 named.Entries named.Entry (map (shadows.entry_node) c.args.entries.now) (node_of (map (shadows.entry_node) c.args.entries.now)) c.in_err-put_entries.field-0.0 c.args.out.now
    c.put_entries.new.out c.put_entries.new.out (λ w. refl) c.in_err-put_entries.ensures)

pub returns : goal.returns
returns c =
    all_put 16 c.len-behind.result named.Entries named.Entry (map (shadows.entry_node) c.args.entries.now) (node_of (map (shadows.entry_node) c.args.entries.now)) c.args.out.now c.put_entries.new.out c.enclose.new.out
    (λ w. refl) c.len-behind.ensures c.in_ok-enclose.ensures c.in_ok-put_entries.ensures
