-- A test that a network is proper. Assumes nothing.
use Rattle.std.proofs.Common.{◌≡◌, ℕ, Bool, true, not, ◌&&◌, eqb, ltb, leb, length}
use Rattle.std.proofs.lemmas.Bool.{and_parts, not-true, eqb-false, ltb-true, leb-true}
use Rattle.network.specs.declared.register.Circuit.{Circuit}
use Rattle.network.specs.Network.{Network, no_circuit, Sound, Proper}
use Rattle.network.proofs.Lists.{every, every_each, each_at}

abbrev pub sound? : ℕ → Circuit → Bool
sound? places c = (ltb c.from places && ltb c.to places) && (not (eqb c.from c.to) && ((leb 1 c.bandwidth && leb c.bandwidth 64000000) && leb c.cost 1000000))

abbrev pub proper? : Network → Bool
proper? n = leb n.places 128 && (leb (length n.circuits) 384 && every (sound? n.places) n.circuits)

sound_sound : (places : ℕ) (c : Circuit) → sound? places c ≡ true → Sound places c
sound_sound places c h =
    let p = and_parts (ltb c.from places && ltb c.to places) (not (eqb c.from c.to) && ((leb 1 c.bandwidth && leb c.bandwidth 64000000) && leb c.cost 1000000)) h in
    let ends = and_parts (ltb c.from places) (ltb c.to places) p.0 in
    let q = and_parts (not (eqb c.from c.to)) ((leb 1 c.bandwidth && leb c.bandwidth 64000000) && leb c.cost 1000000) p.1 in
    let r = and_parts (leb 1 c.bandwidth && leb c.bandwidth 64000000) (leb c.cost 1000000) q.1 in
    let t = and_parts (leb 1 c.bandwidth) (leb c.bandwidth 64000000) r.0 in
    record {
      from_place = ltb-true c.from places ends.0;
      to_place = ltb-true c.to places ends.1;
      apart = eqb-false c.from c.to (not-true (eqb c.from c.to) q.0);
      some_bandwidth = leb-true 1 c.bandwidth t.0;
      most_bandwidth = leb-true c.bandwidth 64000000 t.1;
      most_cost = leb-true c.cost 1000000 r.1;
    }

pub proper_sound : (n : Network) → proper? n ≡ true → Proper n
proper_sound n h =
    let p = and_parts (leb n.places 128) (leb (length n.circuits) 384 && every (sound? n.places) n.circuits) h in
    let q = and_parts (leb (length n.circuits) 384) (every (sound? n.places) n.circuits) p.1 in
    record {
      few_places = leb-true n.places 128 p.0;
      few_circuits = leb-true (length n.circuits) 384 q.0;
      each = λ c h. each_at (Sound n.places) n.circuits c no_circuit h (every_each (sound? n.places) (Sound n.places) (sound_sound n.places) n.circuits q.1);
    }
