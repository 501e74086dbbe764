-- What a lookup's answer says of the test that it stands for. Assumes nothing.
use Prim.Native.Nat.{ℕ}
use Rattle.lists.proofs.Laws.{bool_case}
use Rattle.records.specs.declared.HubNo.{HubNo}
use Rattle.refusals.specs.Lookup.{found_hub, hubs_in}
use Rattle.rules.specs.Reply.{code}
use Rattle.rules.specs.declared.Refusal.TheVariants.{NotInUse}
use Rattle.rules.specs.declared.Refusal.{Refusal}
use Rattle.std.specs.Option.{ok_or}
use Rattle.std.specs.Prelude.{Err, None, Ok, Some}
use lib.Dec.{ltb}
use mathlib.Core.Bool.{false, true}
use mathlib.Core.List.{List}
use mathlib.Core.Path.{◌≡◌, ap}

module _ (t : List ℕ) (n : ℕ) where
  pub hub_in_use : (h : HubNo) → Some h ≡ found_hub t n → ltb n (hubs_in t) ≡ true
  unfolding found_hub
  hub_in_use h e = bool_case (ltb n (hubs_in t)) (λ b. b) (λ b. let r : Some h ≡ None = rw b at e in cc)

  pub hub-number : (h : HubNo) → Some h ≡ found_hub t n → h.0 ≡ n
  unfolding found_hub
  hub-number h e =
      let r : Some h ≡ Some (record { 0 = n }) = rw (hub_in_use h e) at e in
      let same : h ≡ record { 0 = n } = cc in
      ap (λ (k : HubNo). k.0) same

  pub hub_unused : None ≡ found_hub t n → ltb n (hubs_in t) ≡ false
  unfolding found_hub
  hub_unused e = bool_case (ltb n (hubs_in t)) (λ b. let r : None ≡ Some (record { 0 = n }) = rw b at e in cc) (λ b. b)

  -- the same, of the lookup with the refusal for what is not in use
  pub hub_found : (h : HubNo) → Ok h ≡ ok_or (found_hub t n) NotInUse → Some h ≡ found_hub t n
  unfolding found_hub
  hub_found h e = bool_case (ltb n (hubs_in t)) (λ b. rw b (let r : Ok h ≡ ok_or (Some (record { 0 = n })) NotInUse = rw b at e in cc)) (λ b. let r : Ok h ≡ Err NotInUse = rw b at e in cc)

  pub hub_missing : (e : Refusal) → Err e ≡ ok_or (found_hub t n) NotInUse → (ltb n (hubs_in t) ≡ false) × (code e ≡ 5)
  unfolding found_hub
  hub_missing e h =
      bool_case (ltb n (hubs_in t)) (λ b. let r : Err e ≡ Ok (record { 0 = n }) = rw b at h in cc)
      (λ b. let r : Err e ≡ Err NotInUse = rw b at h in let same : e ≡ NotInUse = cc in (b, ap code same))
