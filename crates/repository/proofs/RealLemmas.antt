-- The limits of every repository are the same.
use Rattle.std.proofs.Common.{◌⊎◌, inl, inr, arith, Option}
use Rattle.store_ends.specs.Files.{Files}
use Rattle.holdings.specs.declared.limits.Limits.{Limits}
use Rattle.repository.specs.RealLimits.{AreReal, StandsFor}
use Rattle.repository.specs.Stands.{Collection, Stands}

pub stands-for : (limits : Limits) (c : Collection) (told : Option Files) → AreReal limits → Stands limits told c → StandsFor c told
stands-for limits c told real s other is = record {
  list = s.list;
  has = s.has;
  segments = s.segments;
  listed = s.listed;
  held = record {
    live_are = s.held.live_are;
    distinct = s.held.distinct;
    documents_are = s.held.documents_are;
    tokens_are = s.held.tokens_are;
    documents_fit = omega (arith, s.held.documents_fit, real.held_docs, is.held_docs);
    tokens_fit = omega (arith, s.held.tokens_fit, real.held_tokens, is.held_tokens);
  };
  priors = s.priors;
}

pub either-for : (limits : Limits) (c d : Collection) (told : Option Files) → AreReal limits → Stands limits told c ⊎ Stands limits told d → StandsFor c told ⊎ StandsFor d told
either-for limits c d told real either = elim either [
  | inl old ↦ inl (stands-for limits c told real old)
  | inr new ↦ inr (stands-for limits d told real new)
]
