-- World and disk behind a survey.
use Rattle.std.proofs.Common.{◌≡◌, ◌∙◌, sym, ap, subst, refl, ℕ, ◌≤◌, Bool, true, false, cond, List, [], ◌∷◌, ◌++◌, length, map, Some, None, Ok, inl, inr, ⊎_elim, arith, append-nil}
use Rattle.std.specs.Prelude.{is_some}
use Rattle.std.specs.List.{list_any}
use Rattle.std.proofs.lemmas.Bool.{or_left, or_right}
use Rattle.rc_base.specs.declared.ids.Epoch.{Epoch}
use Rattle.rc_base.specs.declared.ids.TxnId.{TxnId}
use Rattle.rc_base.specs.Ids.{no_epoch, is_epoch, epoch_lt, epoch_le}
use Rattle.rc_base.proofs.EpochOrder.{epoch_le_lt, epoch_le_not, epoch_lt_asym, epoch_lt_le}
use Rattle.rc_base.proofs.SameIds.{is_epoch_same}
use Rattle.config_rule.specs.declared.answers.SurveyAnswer.{SurveyAnswer}
use Rattle.config_rule.specs.Rule.{with_answer}
use Rattle.disk_model.specs.Disk.{Areas, Each}
use Rattle.log_records.specs.declared.record.Physical.TheVariants.{Fence}
use Rattle.txn_table.specs.Log.{Items, commits_in, last_epoch}
use Rattle.log_store.specs.declared.kept.Kept.{Kept as Log}
use Rattle.log_store.specs.Durable.{durable, StandForOneOf}
use Rattle.txn_table.specs.Epochs.{later}
use Rattle.log_store.specs.Growth.{after}
use Rattle.events.specs.declared.event.Event.TheVariants.{Survey}
use Rattle.order_machine.specs.declared.observation.Observation.TheVariants as says
use Rattle.order_machine.specs.Order.{Entry}
use Rattle.order_machine.specs.Machine as machine
use Rattle.order_machine.specs.Machine.{Machine, Txn, without_role}
use Rattle.order_machine.specs.Transitions.{HoldsBehind, IsProgress, refusal, is_above_all, is_told, with_survey}
use Rattle.order_machine.specs.Legal.{IsWhole, moved}
use Rattle.txn_front.specs.Front.{Fronted, going_of, nothing, AreAlike}
use Rattle.replica_model.specs.declared.role.Role.{Role}
use Rattle.replica_model.specs.declared.role.Role.TheVariants.{Other, Primary}
use Rattle.replica_model.specs.declared.step.StepEvent.TheVariants as steps
use Rattle.replica.specs.Open.{Open, AreSame, commits_to, shown_in}
use Rattle.replica.specs.Step.{stepped}
use Rattle.replica.proofs.Lengthened.{records_surveyed}
use Rattle.world.specs.Course.{IsCourse, ArePast, IsFence, is_appointed}
use Rattle.world.specs.Disks.{as_commit}
use Rattle.world.specs.Standing.{Course, serving, resting, standing}
use Rattle.world.specs.Steps.{log_once}
use Rattle.world.specs.World.{AsRole, Serving, Resting, Closed, IsOpen, IsSound, StillHolds}
use Rattle.world.proofs.Calls.OneTxn.{runs_alike}
use Rattle.world.proofs.States.Logs.{BeginsWith, begins_still, sound_later}
use Rattle.world.proofs.Epochs.SurveyLines.{RoleEnds, below_all, found_any, survey_noted, shut_of, progress_serves, ignored_serves, survey_faults}

-- ---- the course

abbrev pub surveyed_in : machine.Survey → List SurveyAnswer → Course → Course
surveyed_in s answers course = record course { answers = answers; surveys = s ∷ course.surveys }

course_surveyed : (s : machine.Survey) (answers : List SurveyAnswer) (course : Course) → IsCourse course → IsCourse (surveyed_in s answers course)
course_surveyed s answers course c = record { each = c.each; latest = c.latest }

past_surveyed : (s : machine.Survey) (answers : List SurveyAnswer) (course : Course) (entries : List Entry) (acknowledged : List TxnId) (txns : List (TxnId × Txn)) → ArePast course entries acknowledged txns → ArePast (surveyed_in s answers course) entries acknowledged txns
past_surveyed s answers course entries acknowledged txns p = record { each = p.each; held = p.held; held_within = p.held_within }

fence_surveyed : (s : machine.Survey) (answers : List SurveyAnswer) (course : Course) (fence : Epoch) → IsFence course fence → IsFence (surveyed_in s answers course) fence
fence_surveyed s answers course fence f = ⊎_elim (λ low. inl low) (λ told. inr (or_right (is_epoch fence s.epoch) (list_any (λ (t : machine.Survey). is_epoch fence t.epoch) course.surveys) told)) f

fence_later : (b : Bool) (e : Epoch) (faulted : Bool) (answers : List SurveyAnswer) (course : Course) (fence : Epoch) → IsFence course fence → IsFence (surveyed_in (record { epoch = e; faulted = faulted }) answers course) (cond b e fence)
fence_later true e faulted answers course fence f = inr (or_left (is_epoch e e) (list_any (λ (t : machine.Survey). is_epoch e t.epoch) course.surveys) (is_epoch_same e))
fence_later false e faulted answers course fence f = fence_surveyed (record { epoch = e; faulted = faulted }) answers course fence f

fence_by : (b : Bool) (e : Epoch) (faulted : Bool) (answers : List SurveyAnswer) (course : Course) (log : Log) → IsFence course log.fence → IsFence (surveyed_in (record { epoch = e; faulted = faulted }) answers course) (after log (cond b (Fence e ∷ []) [] ++ [])).fence
fence_by true e faulted answers course log f = fence_later (epoch_lt log.fence e) e faulted answers course log.fence f
fence_by false e faulted answers course log f = fence_surveyed (record { epoch = e; faulted = faulted }) answers course log.fence f

fence_behind : (r : Open) (e : Epoch) (faulted : Bool) (answers : List SurveyAnswer) (course : Course) (log : Log) → IsFence course log.fence → IsFence (surveyed_in (record { epoch = e; faulted = faulted }) answers course) (log_once r (steps.Survey e) log).fence
fence_behind r e faulted answers course log f = fence_by (epoch_lt r.fence e) e faulted answers course log f

sound_surveyed : (s : machine.Survey) (answers : List SurveyAnswer) (entries : List Entry) (txns : List (TxnId × Txn)) (course : Course) (last number : ℕ) (log then : Log) → last ≤ number → then.records ≡ log.records → IsFence (surveyed_in s answers course) then.fence → IsSound entries txns course last log → IsSound entries txns (surveyed_in s answers course) number then
sound_surveyed s answers entries txns course last number log then rising records fence h = record {
  more = h.more;
  holds = h.holds ∙ ap commits_in (sym records);
  follow = h.follow;
  hidden = h.hidden;
  shows = ap (λ (l : Items). shown_in l ++ h.hidden) records ∙ h.shows;
  fence = fence;
  logged = ⊎_elim (λ there. inl (ap (λ (l : Items). is_appointed course (last_epoch l)) records ∙ there)) (λ none. inr (records ∙ none)) h.logged;
  short = let o = h.short in let c = ap length records in omega (arith, o, c, rising);
}

-- ---- a survey that is answered

-- the replica behind the step
pub record IsSurveyed (r o : Open) (e : Epoch) (images now : Areas → Type 0) : Type 0 where
  pub same : AreSame o (record (stepped r (steps.Survey e)) { log = o.log })
  pub stands : (log : Log) → IsOpen r log images → IsOpen o (log_once r (steps.Survey e) log) now

-- how far its log reaches
progress_is : (last : ℕ) (r : Open) (images : Areas → Type 0) (m : Machine) (e : Epoch) → Resting last r images (without_role m 0) → is_above_all m e ≡ true → IsProgress m e r.epoch r.last.0
progress_is last r images m e s above =
    let agrees = s.is_open.agrees in
    ⊎_elim
    (λ there.
    let here : list_any (λ a. is_epoch r.epoch a.epoch) m.appointments ≡ true = subst (λ (n : Machine). list_any (λ a. is_epoch r.epoch a.epoch) n.appointments ≡ true) (sym s.rests.is) (subst (λ (f : Epoch). is_appointed s.rests.course f ≡ true) agrees.epoch there) in
    inl (found_any r.epoch m.appointments here, below_all e r.epoch m.appointments above here))
    (λ none. inr (sym agrees.epoch ∙ ap last_epoch none, sym agrees.last ∙ ap length none))
    s.sound.logged

pub answered_surveyed : (last number : ℕ) (r o : Open) (images now : Areas → Type 0) (m : Machine) (e : Epoch) → last ≤ number → Resting last r images (without_role m 0) → refusal m (Survey 0 e) ≡ None → is_above_all m e ≡ true → epoch_lt e r.fence ≡ false → IsSurveyed r o e images now →
    IsWhole m (Survey 0 e) (says.Progress 0 r.epoch r.last.0 ∷ [])
    × (moved m (Survey 0 e) (says.Progress 0 r.epoch r.last.0 ∷ []) ≡ survey_noted e (record { epoch = e; from = 0; last_epoch = r.epoch; last = r.last }) (without_role m 0))
    × (o.role ≡ Other)
    × Resting number o now (survey_noted e (record { epoch = e; from = 0; last_epoch = r.epoch; last = r.last }) (without_role m 0))
answered_surveyed last number r o images now m e rising s allowed above high st =
    let a : SurveyAnswer = record { epoch = e; from = 0; last_epoch = r.epoch; last = r.last } in
    let course : Course = s.rests.course in
    let answers : List SurveyAnswer = with_answer a course.answers in
    let survey : machine.Survey = record { epoch = e; faulted = false } in
    let done = progress_serves m e r.epoch r.last.0 s.entries s.rests.acknowledged s.rests.txns course r.shown s.rests.is allowed (progress_is last r images m e s above) in
    let step : stepped r (steps.Survey e) ≡ record r { fence = later r.fence e; role = Other; front = nothing no_epoch } = ap (λ (b : Bool). cond b r (record r { fence = later r.fence e; role = Other; front = nothing no_epoch })) high in
    let is : o ≡ record r { log = o.log; fence = later r.fence e; role = Other; front = o.front } = st.same.same ∙ ap (λ (x : Open). record x { log = o.log; front = o.front }) step in
    let shown : o.shown ≡ r.shown = ap (λ (x : Open). x.shown) is in
    let stable : o.stable.0 ≡ r.stable.0 = ap (λ (x : Open). x.stable.0) is in
    let begins : o.front.begins ≡ 0 = ap (λ (f : Fronted). f.begins) st.same.front.same ∙ ap (λ (x : Open). x.front.begins) step in
    let records : (log_once r (steps.Survey e) s.log).records ≡ s.log.records = records_surveyed s.log r e in (
      done.0,
      done.1,
      ap (λ (x : Open). x.role) is,
      record {
        entries = s.entries;
        rests = record {
          acknowledged = s.rests.acknowledged;
          txns = s.rests.txns;
          course = surveyed_in survey answers course;
          is = ap (survey_noted e a) s.rests.is ∙ ap (λ (k : ℕ). standing s.entries s.rests.acknowledged (resting (surveyed_in survey answers course) k) s.rests.txns (surveyed_in survey answers course)) (sym shown);
          ruled = course_surveyed survey answers course s.rests.ruled;
          past = past_surveyed survey answers course s.entries s.rests.acknowledged s.rests.txns s.rests.past;
        };
        log = log_once r (steps.Survey e) s.log;
        is_open = st.stands s.log s.is_open;
        sound = sound_surveyed survey answers s.entries s.rests.txns course last number s.log (log_once r (steps.Survey e) s.log) rising records (fence_behind r e false answers course s.log s.sound.fence) s.sound;
        hidden = s.hidden;
        shows = ap (λ (n : ℕ). commits_to n (log_once r (steps.Survey e) s.log).records ++ s.hidden) stable ∙ (ap (λ (l : Items). commits_to r.stable.0 l ++ s.hidden) records ∙ s.shows);
        few = omega (arith, begins);
      },
    )

-- ---- a survey of an epoch below the fence

fence_above : (l e f : Epoch) → epoch_lt l e ≡ true → epoch_lt e f ≡ true → epoch_le f l ≡ true → ⊥
fence_above l e f low up le = epoch_le_not f l le (epoch_le_lt l e f (epoch_lt_le l e low) up)

-- its fence is that of a survey
fence_told : (last : ℕ) (r : Open) (images : Areas → Type 0) (m : Machine) (e : Epoch) → Resting last r images (without_role m 0) → RoleEnds m r.fence → is_above_all m e ≡ true → epoch_lt e r.fence ≡ true → is_told m r.fence ≡ true
fence_told last r images m e s ends above low =
    let course : Course = s.rests.course in
    let below : epoch_lt course.latest e ≡ true = below_all e course.latest (course.first ∷ course.later) (subst (λ (n : Machine). is_above_all n e ≡ true) s.rests.is above) s.rests.ruled.latest in
    let fence : IsFence course r.fence = subst (IsFence course) s.is_open.agrees.fence s.sound.fence in
    let there : is_told (standing s.entries s.rests.acknowledged (resting course r.shown) s.rests.txns course) r.fence ≡ true =
    ⊎_elim
    (λ within. absurd (fence_above course.latest e r.fence below low within))
    (λ surveyed. or_right (is_some (machine.appointment_of (standing s.entries s.rests.acknowledged (resting course r.shown) s.rests.txns course) r.fence)) _ (or_left (list_any (λ (t : machine.Survey). is_epoch r.fence t.epoch) course.surveys) _ surveyed))
    fence in
    ends.told ∙ subst (λ (n : Machine). is_told n r.fence ≡ true) (sym s.rests.is) there

-- a replica that the step left as it was, but for how its log is kept and the order between its grants
pub record IsAlike (r o : Open) (images now : Areas → Type 0) : Type 0 where
  pub same : o ≡ record r { log = o.log; front = o.front }
  pub alike : AreAlike o.front r.front
  pub stands : (log : Log) → IsOpen r log images → IsOpen o log now

alike_resting : (last number : ℕ) (r o : Open) (images now : Areas → Type 0) (m : Machine) → last ≤ number → IsAlike r o images now → Resting last r images m → Resting number o now m
alike_resting last number r o images now m rising st s =
    let x : Open = record r { log = o.log; front = o.front } in
    let begins = ap (λ (f : Fronted). f.begins) st.alike.same in
    let there : Resting number x now m = record {
      entries = s.entries;
      rests = s.rests;
      log = s.log;
      is_open = subst (λ (y : Open). IsOpen y s.log now) st.same (st.stands s.log s.is_open);
      sound = sound_later s.entries s.rests.txns s.rests.course last number s.log rising s.sound;
      hidden = s.hidden;
      shows = s.shows;
      few = let few = s.few in omega (arith, begins, few, rising);
    } in
    subst (λ (y : Open). Resting number y now m) (sym st.same) there

alike_serving : (last number : ℕ) (r o : Open) (images now : Areas → Type 0) (m : Machine) → last ≤ number → IsAlike r o images now → Serving last r images m → Serving number o now m
alike_serving last number r o images now m rising st s =
    let x : Open = record r { log = o.log; front = o.front } in
    let begins = ap (λ (f : Fronted). f.begins) st.alike.same in
    let runs = runs_alike s.runs.entries s.runs.course r.front o.front r.shown r.contents m st.alike (s.runs, (refl, refl)) in
    let there : Serving number x now m = record {
      runs = runs.0;
      ruled = subst IsCourse (sym runs.1.1) s.ruled;
      log = s.log;
      is_open = subst (λ (y : Open). IsOpen y s.log now) st.same (st.stands s.log s.is_open);
      epoch = s.epoch ∙ ap (λ (c : Course). c.latest) (sym runs.1.1);
      fence = subst (λ (c : Course). IsFence c r.fence) (sym runs.1.1) s.fence;
      commits = ap (map as_commit) runs.1.0 ∙ s.commits;
      short = let o = s.short in omega (arith, o, rising);
      few = let few = s.few in omega (arith, begins, few, rising);
      recorded = λ t going known. s.recorded t going (subst (λ (f : Fronted). going_of f t ≡ Some going) st.alike.same known);
    } in
    subst (λ (y : Open). Serving number y now m) (sym st.same) there

alike_role : (role : Role) (last number : ℕ) (r o : Open) (images now : Areas → Type 0) (m : Machine) → last ≤ number → IsAlike r o images now → AsRole role last r images m → AsRole role number o now m
alike_role Other last number r o images now m rising st s = alike_resting last number r o images now m rising st s
alike_role (Primary epoch active) last number r o images now m rising st s = alike_serving last number r o images now m rising st s

-- the step leaves it so
unsurveyed : (r o : Open) (e : Epoch) (images now : Areas → Type 0) → epoch_lt e r.fence ≡ true → IsSurveyed r o e images now → IsAlike r o images now
unsurveyed r o e images now low st =
    let step : stepped r (steps.Survey e) ≡ r = ap (λ (b : Bool). cond b r (record r { fence = later r.fence e; role = Other; front = nothing no_epoch })) low in
    record {
      same = st.same.same ∙ ap (λ (x : Open). record x { log = o.log; front = o.front }) step;
      alike = subst (λ (x : Open). AreAlike o.front x.front) step st.same.front;
      stands = λ log allowed. subst (λ (l : Log). IsOpen o l now) (ap (λ (b : Bool). after log (cond b (Fence e ∷ []) [] ++ [])) (epoch_lt_asym e r.fence low)) (st.stands log allowed);
    }

pub ignored_surveyed : (last number : ℕ) (r o : Open) (images now : Areas → Type 0) (m : Machine) (e : Epoch) → last ≤ number → AsRole r.role last r images m → Resting last r images (without_role m 0) → RoleEnds m r.fence → refusal m (Survey 0 e) ≡ None → is_above_all m e ≡ true → HoldsBehind m → epoch_lt e r.fence ≡ true → IsSurveyed r o e images now →
    IsWhole m (Survey 0 e) (says.IgnoredOldEpoch r.fence e ∷ [])
    × (moved m (Survey 0 e) (says.IgnoredOldEpoch r.fence e ∷ []) ≡ m)
    × AsRole o.role number o now m
ignored_surveyed last number r o images now m e rising role s ends allowed above holds low st =
    let done = ignored_serves m e r.fence allowed low (fence_told last r images m e s ends above low) holds in
    let alike = unsurveyed r o e images now low st in
    let same : o.role ≡ r.role = ap (λ (x : Open). x.role) alike.same in
    (done.0, done.1, subst (λ (w : Role). AsRole w number o now m) (sym same) (alike_role r.role last number r o images now m rising alike role))

-- ---- a survey that the disk cuts off

pub faulted_surveyed : (last number : ℕ) (r : Open) (images now : Areas → Type 0) (m : Machine) (e : Epoch) → last ≤ number → Resting last r images (without_role m 0) → RoleEnds m e → refusal m (Survey 0 e) ≡ None → ((log : Log) → IsOpen r log images → StandForOneOf log (log_once r (steps.Survey e) log) now) →
    IsWhole m (Survey 0 e) (says.Fault 0 ∷ [])
    × (moved m (Survey 0 e) (says.Fault 0 ∷ []) ≡ with_survey (shut_of (without_role m 0)) 0 e true)
    × Closed number now (with_survey (shut_of (without_role m 0)) 0 e true)
faulted_surveyed last number r images now m e rising s ends allowed stop =
    let course : Course = s.rests.course in
    let survey : machine.Survey = record { epoch = e; faulted = true } in
    let behind : Course = surveyed_in survey course.answers course in
    let done = survey_faults m e s.entries s.rests.acknowledged s.rests.txns course r.shown s.rests.is ends allowed in
    let stays : IsSound s.entries s.rests.txns behind number s.log = sound_surveyed survey course.answers s.entries s.rests.txns course last number s.log s.log rising refl (fence_surveyed survey course.answers course s.log.fence s.sound.fence) s.sound in
    let grown : IsSound s.entries s.rests.txns behind number (log_once r (steps.Survey e) s.log) = sound_surveyed survey course.answers s.entries s.rests.txns course last number s.log (log_once r (steps.Survey e) s.log) rising (records_surveyed s.log r e) (fence_behind r e true course.answers course s.log s.sound.fence) s.sound in (
      done.0,
      done.1,
      record {
        entries = s.entries;
        is_shut = record {
          acknowledged = s.rests.acknowledged;
          txns = s.rests.txns;
          course = behind;
          shown = r.shown;
          is = ap (λ n. with_survey (shut_of n) 0 e true) s.rests.is;
          ruled = course_surveyed survey course.answers course s.rests.ruled;
          past = past_surveyed survey course.answers course s.entries s.rests.acknowledged s.rests.txns s.rests.past;
        };
        sound = λ c is. ⊎_elim (λ old. (s.log, old, stays)) (λ new. (log_once r (steps.Survey e) s.log, new, grown)) (stop s.log s.is_open c is);
      },
    )

-- ---- what was acknowledged

begins_surveyed : (entries : List Entry) (r : Open) (e : Epoch) (log : Log) (now : Areas → Type 0) → BeginsWith entries log → StandForOneOf log (log_once r (steps.Survey e) log) now → Each now (λ c. (l : Log) × (durable c ≡ Ok l) × BeginsWith entries l)
begins_surveyed entries r e log now begins stands c is =
    ⊎_elim (λ old. (log, old, begins)) (λ new. (log_once r (steps.Survey e) log, new, (begins.0, begins.1 ∙ ap commits_in (sym (records_surveyed log r e))))) (stands c is)

pub survey_still : (role : Role) (last : ℕ) (r : Open) (images now : Areas → Type 0) (m : Machine) (e : Epoch) → AsRole role last r images m → ((log : Log) → IsOpen r log images → StandForOneOf log (log_once r (steps.Survey e) log) now) → StillHolds m now
survey_still Other last r images now m e s stop =
    subst (λ n. StillHolds n now) (sym s.rests.is)
    (begins_still s.entries s.rests.acknowledged (resting s.rests.course r.shown) s.rests.txns s.rests.course now refl (begins_surveyed s.entries r e s.log now (s.sound.more, s.sound.holds) (stop s.log s.is_open)))
survey_still (Primary epoch active) last r images now m e s stop =
    subst (λ n. StillHolds n now) (sym s.runs.is)
    (begins_still s.runs.entries s.runs.acknowledged (serving s.runs.course (length s.runs.entries) r.front.begins s.runs.grants) s.runs.txns s.runs.course now refl (begins_surveyed s.runs.entries r e s.log now ([], append-nil (map as_commit s.runs.entries) ∙ s.commits) (stop s.log s.is_open)))
