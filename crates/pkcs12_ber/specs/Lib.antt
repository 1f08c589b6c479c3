pub mod ContentInfos
pub mod ContentInfosEqual
pub mod Pfxs
pub mod PfxsEqual
pub mod InDer
pub mod Files
pub mod Places
