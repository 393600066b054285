use Rattle.std.proofs.Common.{◌≡◌, ℕ, List, [], ◌∷◌, ◌++◌, length, take, drop, set, ap, ◌∙◌, arith, rules}
use Rattle.std.proofs.lemmas.List.{take_more_set, drop_all, length-set, append-nil, append_assoc}
use Rattle.std.proofs.lemmas.Grind.{common_steps}
use Rattle.uuid.specs.Uuid.{version_num}
use Rattle.vbm_ids.specs.Identifier.{version_byte, identifier_of}
use Rattle.vbm_ids.proofs.Identifiers.{version_num-identifier_of}
use Rattle.vbm_ids.proofs.id_of.Goals as goal

abbrev with_kind : List ℕ → ℕ → List ℕ
with_kind seed kind = set (set seed 6 (version_byte seed)) 7 kind

front : (seed : List ℕ) (kind : ℕ) → length seed ≡ 16 → take 8 (with_kind seed kind) ≡ take 6 seed ++ version_byte seed ∷ kind ∷ []
front seed kind long =
    take_more_set (set seed 6 (version_byte seed)) 7 kind (omega (arith, long, length-set seed 6 (version_byte seed)))
    ∙ ap (λ (bytes : List ℕ). bytes ++ kind ∷ []) (take_more_set seed 6 (version_byte seed) (omega (arith, long)))
    ∙ append_assoc (take 6 seed) (version_byte seed ∷ []) (kind ∷ [])

end : (seed : List ℕ) (kind : ℕ) → length seed ≡ 16 → drop 8 (drop 8 (with_kind seed kind)) ≡ []
end seed kind long = grind (arith, common_steps, drop_all, long)

-- bytes 6 and 7 are set, and the last half is copied
copied : (seed bytes half copy : List ℕ) (kind number : ℕ) → bytes ≡ seed → copy ≡ half → kind ≡ number → length seed ≡ 16
    → take 8 (with_kind bytes kind) ++ (copy ++ drop 8 (drop 8 (with_kind bytes kind))) ≡ (take 6 seed ++ version_byte seed ∷ number ∷ []) ++ half
copied seed bytes half copy kind number same whole numbered long =
    rw (same, whole, numbered, end seed number long, append-nil half) (ap (λ (bytes : List ℕ). bytes ++ half) (front seed number long))

pub returns-clause-bytes : goal.returns-clause-bytes
unfolding identifier_of
returns-clause-bytes c =
    c.from_bytes.ensures
    ∙ copied _ _ _ _ _ _ c.into_bytes-bytes.ensures (c.copy_from_slice.ensures.after ∙ c.to_be_bytes.ensures) c.number.ensures (search rules)

pub returns-clause-version : goal.returns-clause-version
returns-clause-version c =
    let size : length c.args.seed ≡ 16 = search rules in
    ap version_num (returns-clause-bytes c) ∙ version_num-identifier_of c.args.seed (omega (arith, size)) c.args.kind c.args.n
