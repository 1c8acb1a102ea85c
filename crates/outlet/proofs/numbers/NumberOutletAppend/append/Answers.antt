use Rattle.std.proofs.Common.{[], ◌++◌, ap, ◌∙◌}
use Rattle.std.proofs.lemmas.List.{flat_map_more}
use Rattle.outlet.specs.Entries.{entry_of}
use Rattle.outlet.specs.Numbers.{entry_numbers, numbers_fit}
use Rattle.outlet.proofs.Appending.{appended_kept, appended_size, appended_sound}
use Rattle.outlet.proofs.numbers.NumberOutletAppend.append.Goals as goal

pub invariant_of-self : goal.invariant_of-self
invariant_of-self c =
    let o = c.args.self.now in
    record { whole = appended_sound o.numbers (entry_numbers (entry_of c.args.kind c.args.lits.now)) c.write_entry.new.out c.write_entry.ensures o.whole }

pub returns : goal.returns
returns c =
    let s = c.args.self.now.numbers in
    let t = c.write_entry.new.out in
    let e = entry_of c.args.kind c.args.lits.now in
    let a = c.write_entry.ensures in
    record {
      entries = λ es m. record { held = a.items ∙ ap (λ l. l ++ entry_numbers e) m.held ∙ flat_map_more entry_numbers [] es e };
      fitting = ap numbers_fit (appended_size s (entry_numbers e) t a);
      kept = appended_kept s (entry_numbers e) t a;
    }
