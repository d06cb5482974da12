-- Memory that is given back, step by step.
use Rattle.std.proofs.Common.{◌∙◌, refl}
use Rattle.an_postings.specs.Postings.{Lists}
use Rattle.an_listed.specs.Leaner.{AreLeaner, IsLeaner}
use Rattle.an_listed.specs.declared.register.Register.{Register}

pub itself : (a : Lists) → IsLeaner a a
itself a = record { places = refl; counts = refl }

pub after : (a b d : Lists) → IsLeaner a b → IsLeaner b d → IsLeaner a d
after a b d f s = record { places = s.places ∙ f.places; counts = s.counts ∙ f.counts }

pub alike : (a : Register) → AreLeaner a a
alike a = record { words = itself a.words; anywhere = itself a.anywhere; whole = itself a.whole }

pub after_all : (a b d : Register) → AreLeaner a b → AreLeaner b d → AreLeaner a d
after_all a b d f s = record {
  words = after a.words b.words d.words f.words s.words;
  anywhere = after a.anywhere b.anywhere d.anywhere f.anywhere s.anywhere;
  whole = after a.whole b.whole d.whole f.whole s.whole;
}
