-- The first of two faults, and what it tells.
use Rattle.std.proofs.Common.{◌≡◌, ◌⊎◌, inl, inr, Option, Some, None, refl, ap}
use Rattle.qm_parse.specs.Checks.{offended, or_else}
use Rattle.qm_parse.specs.declared.ast.Named.{Named}
use Rattle.qm_parse.specs.declared.offence.NameFault.{NameFault}
use Rattle.qm_parse.specs.declared.offence.Offence.{Offence}

pub or_else-first : (fault : NameFault) (one other : Option NameFault) → Some fault ≡ one → Some fault ≡ or_else one other
unfolding or_else
or_else-first fault one other is = rw (← is) refl

pub or_else-second : (one other answer : Option NameFault) → None ≡ one → answer ≡ other → answer ≡ or_else one other
unfolding or_else
or_else-second one other answer none is = rw (← none) is

-- the name of a fault, at its place
abbrev pub place_of_fault : NameFault → Named
place_of_fault fault = record { name = fault.name; at = fault.at }

-- the fault is of this kind, and its name was found
abbrev pub IsOf : Offence → Option Named → NameFault → Type 0
IsOf kind found fault = (found ≡ Some (place_of_fault fault)) × (kind ≡ fault.offence)

pub offended-is : (kind : Offence) (found : Option Named) (fault : NameFault) → offended kind found ≡ Some fault → IsOf kind found fault
unfolding offended
offended-is kind None fault is = absurd (cc)
offended-is kind (Some named) fault is =
    let same : record { offence = kind; name = named.name; at = named.at } ≡ fault = cc in
    (ap (λ (fault : NameFault). Some (place_of_fault fault)) same, ap (λ (fault : NameFault). fault.offence) same)

pub offended-None : (kind : Offence) (found : Option Named) → offended kind found ≡ None → found ≡ None
unfolding offended
offended-None kind None none = refl
offended-None kind (Some named) none = absurd (cc)

pub none_offended : (kind : Offence) (found : Option Named) → found ≡ None → None ≡ offended kind found
unfolding offended
none_offended kind found none = rw none refl

-- a first fault, or none: the offence that stands first, or what the others say
pub or_else-offended : (kind : Offence) (found : Option Named) (other : Option NameFault) (fault : NameFault) → or_else (offended kind found) other ≡ Some fault → IsOf kind found fault ⊎ ((found ≡ None) × (other ≡ Some fault))
unfolding or_else offended
or_else-offended kind None other fault is = inr (refl, is)
or_else-offended kind (Some named) other fault is = inl (offended-is kind (Some named) fault is)

pub or_else-None : (kind : Offence) (found : Option Named) (other : Option NameFault) → or_else (offended kind found) other ≡ None → (found ≡ None) × (other ≡ None)
unfolding or_else offended
or_else-None kind None other none = (refl, none)
or_else-None kind (Some named) other none = absurd (cc)

pub offended-Some : (kind : Offence) (found : Option Named) (named : Named) → found ≡ Some named → Some (record { offence = kind; name = named.name; at = named.at }) ≡ offended kind found
unfolding offended
offended-Some kind found named is = rw is refl
