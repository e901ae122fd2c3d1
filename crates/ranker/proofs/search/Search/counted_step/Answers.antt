use Rattle.std.proofs.Common.{refl, ap, sym, ◌∙◌, None, nat_lt}
use Rattle.std.proofs.Math.Logic.{∥∥₁_map}
use Rattle.std.proofs.lemmas.Result.{err_from_is_err_and}
use Rattle.ranker.proofs.SpentLemmas.{rise-within}
use Rattle.ranker.proofs.search.Search.counted_step.Goals as goal

pub advance-requires-clause-open : goal.advance-requires-clause-open
advance-requires-clause-open g c = c.args.self.now.open c.requires.usable None ∙ ap (nat_lt c.args.self.now.at.credit) (sym (c.args.self.now.count None))

pub returns-in_err-advance-clause-same : goal.returns-in_err-advance-clause-same
returns-in_err-advance-clause-same g c = record { snapshot = refl; checked = refl; network = refl; most = refl }

pub returns-clause-same : goal.returns-clause-same
returns-clause-same g c = record { snapshot = refl; checked = refl; network = refl; most = refl }

-- what is left of the store, the cache and the blocks
pub returns-clause-cache : goal.returns-clause-cache
returns-clause-cache g c = (rw c.parts.ensures.parts at c.advance.ensures.reads).cache

pub returns-in_err-advance-clause-cache : goal.returns-in_err-advance-clause-cache
returns-in_err-advance-clause-cache g c = (rw c.parts.ensures.parts at c.advance.ensures.reads).cache

pub invariant_of-self-2 : goal.invariant_of-self-2
invariant_of-self-2 g c = record {
  shown = c.args.self.now.shown;
  fits = (rw c.parts.ensures.parts at c.advance.ensures.reads).fits;
  count = c.args.self.now.count;
  place = rw c.parts.ensures.parts at c.in_ok-advance.ensures.place;
  next = λ usable. rw c.parts-2.ensures.parts at c.bare_to-self.ensures;
  «open» = λ usable told. c.in_ok-advance.ensures.open ∙ ap (nat_lt c.advance.new.at.credit) (c.args.self.now.count told);
  entries = λ usable. c.in_ok-advance.ensures.entries;
  windows = λ usable told. ∥∥₁_map (c.args.self.now.windows c.requires.usable told) (λ h. (rw c.parts.ensures.parts at c.in_ok-advance.ensures.windows) told c.args.self.now.most h);
}

pub advance-requires-clause-fits : goal.advance-requires-clause-fits
advance-requires-clause-fits g c = rw (sym c.parts.ensures.parts) at c.args.self.now.fits

pub returns-in_err-advance-clause-honest : goal.returns-in_err-advance-clause-honest
returns-in_err-advance-clause-honest g c = λ backed cached blocks.
    let p = err_from_is_err_and c.from_residual.result c.from_residual.ensures.1 in
    rw (p.1, p.2) ((rw c.parts.ensures.parts at c.in_err-advance.ensures.honest) backed (record { cache = cached; held = blocks }))

-- ---- what it comes to

pub returns-clause-taken : goal.returns-clause-taken
returns-clause-taken g c = λ backed cached h.
    let takes = (rw c.as_slice.ensures at (rw c.deref.ensures.value at (rw c.deref-2.ensures.value at (rw c.parts.ensures.parts at c.in_ok-advance.ensures.takes)))) backed (record { cache = cached; held = h.blocks }) c.args.self.now.most h.ahead h.held in
    record { held = takes.taken; ahead = takes.known; blocks = ((rw c.parts.ensures.parts at c.advance.ensures.reads).read backed (record { cache = cached; held = h.blocks })).held }

pub returns-clause-squares : goal.returns-clause-squares
returns-clause-squares g c = λ backed cached h. ((rw c.as_slice.ensures at (rw c.deref.ensures.value at (rw c.deref-2.ensures.value at (rw c.parts.ensures.parts at c.in_ok-advance.ensures.takes)))) backed (record { cache = cached; held = h.blocks }) c.args.self.now.most h.ahead h.held).squares

pub returns-clause-within : goal.returns-clause-within
returns-clause-within g c = λ backed cached h. ((rw c.as_slice.ensures at (rw c.deref.ensures.value at (rw c.deref-2.ensures.value at (rw c.parts.ensures.parts at c.in_ok-advance.ensures.takes)))) backed (record { cache = cached; held = h.blocks }) c.args.self.now.most h.ahead h.held).within

pub returns-in_err-advance-clause-within : goal.returns-in_err-advance-clause-within
returns-in_err-advance-clause-within g c = λ backed cached h. ((rw c.as_slice.ensures at (rw c.deref.ensures.value at (rw c.deref-2.ensures.value at (rw c.parts.ensures.parts at c.in_err-advance.ensures.takes)))) backed (record { cache = cached; held = h.blocks }) c.args.self.now.most h.ahead h.held).within

pub returns-clause-met : goal.returns-clause-met
returns-clause-met g c = λ backed cached h. ((rw c.as_slice.ensures at (rw c.deref.ensures.value at (rw c.deref-2.ensures.value at (rw c.parts.ensures.parts at c.in_ok-advance.ensures.takes)))) backed (record { cache = cached; held = h.blocks }) c.args.self.now.most h.ahead h.held).met

pub returns-clause-meets : goal.returns-clause-meets
returns-clause-meets g c = λ backed cached h. ((rw c.as_slice.ensures at (rw c.deref.ensures.value at (rw c.deref-2.ensures.value at (rw c.parts.ensures.parts at c.in_ok-advance.ensures.takes)))) backed (record { cache = cached; held = h.blocks }) c.args.self.now.most h.ahead h.held).meets

pub returns-in_err-advance-clause-meets : goal.returns-in_err-advance-clause-meets
returns-in_err-advance-clause-meets g c = λ backed cached h. ((rw c.as_slice.ensures at (rw c.deref.ensures.value at (rw c.deref-2.ensures.value at (rw c.parts.ensures.parts at c.in_err-advance.ensures.takes)))) backed (record { cache = cached; held = h.blocks }) c.args.self.now.most h.ahead h.held).meets

pub returns-clause-spent : goal.returns-clause-spent
returns-clause-spent g c = λ backed cached h within.
    let takes = (rw c.as_slice.ensures at (rw c.deref.ensures.value at (rw c.deref-2.ensures.value at (rw c.parts.ensures.parts at c.in_ok-advance.ensures.takes)))) backed (record { cache = cached; held = h.blocks }) c.args.self.now.most h.ahead h.held in
    record {
      squares = rise-within _ _ _ _ _ _ c.in_ok-advance.ensures.squared takes.squares within.squares;
      blocks = rise-within _ _ _ _ _ _ c.in_ok-advance.ensures.counted takes.met within.blocks;
    }

-- ---- blocks

pub returns-clause-opened : goal.returns-clause-opened
returns-clause-opened g c = (rw c.as_slice.ensures at (rw c.parts.ensures.parts at c.in_ok-advance.ensures.blocks)).opened

pub returns-clause-opens : goal.returns-clause-opens
returns-clause-opens g c = (rw c.as_slice.ensures at (rw c.parts.ensures.parts at c.in_ok-advance.ensures.blocks)).opens

pub returns-in_err-advance-clause-opens : goal.returns-in_err-advance-clause-opens
returns-in_err-advance-clause-opens g c = (rw c.as_slice.ensures at (rw c.parts.ensures.parts at c.in_err-advance.ensures.blocks)).opens

pub returns-clause-few : goal.returns-clause-few
returns-clause-few g c = (rw c.as_slice.ensures at (rw c.parts.ensures.parts at c.in_ok-advance.ensures.blocks)).few

pub returns-in_err-advance-clause-few : goal.returns-in_err-advance-clause-few
returns-in_err-advance-clause-few g c = (rw c.as_slice.ensures at (rw c.parts.ensures.parts at c.in_err-advance.ensures.blocks)).few
