-- By meaning, turns are a group: each law by its cases.
use Rattle.std.proofs.Common.{◌≡◌, ◌+◌, ◌%◌, refl}
use Rattle.carry.specs.declared.turn.Turn.{Turn}
use Rattle.carry.specs.declared.turn.Turn.TheVariants.{Straight, Turned}
use Rattle.carry.specs.Kinds.{Group}
use Rattle.carry.specs.Turns.{turn_meaning, turn_kind}

sum : (a b : Turn) → (c : Turn) × (turn_meaning c ≡ (turn_meaning a + turn_meaning b) % 2)
sum Straight Straight = (Straight, refl)
sum Straight Turned = (Turned, refl)
sum Turned Straight = (Turned, refl)
sum Turned Turned = (Straight, refl)

assoc3 : (a b c : Turn) → ((turn_meaning a + turn_meaning b) % 2 + turn_meaning c) % 2 ≡ (turn_meaning a + (turn_meaning b + turn_meaning c) % 2) % 2
assoc3 Straight Straight Straight = refl
assoc3 Straight Straight Turned = refl
assoc3 Straight Turned Straight = refl
assoc3 Straight Turned Turned = refl
assoc3 Turned Straight Straight = refl
assoc3 Turned Straight Turned = refl
assoc3 Turned Turned Straight = refl
assoc3 Turned Turned Turned = refl

left : (a : Turn) → (0 + turn_meaning a) % 2 ≡ turn_meaning a
left Straight = refl
left Turned = refl

right : (a : Turn) → (turn_meaning a + 0) % 2 ≡ turn_meaning a
right Straight = refl
right Turned = refl

twice : (a : Turn) → (turn_meaning a + turn_meaning a) % 2 ≡ 0
twice Straight = refl
twice Turned = refl

pub turn_group : Group turn_meaning turn_kind
turn_group = record {
  associative = assoc3;
  neutral_before = left;
  neutral_after = right;
  inverse_before = twice;
  inverse_after = twice;
  neutral_meant = (Straight, refl);
  combined_meant = sum;
  inverse_meant = λ a. (a, refl);
}
