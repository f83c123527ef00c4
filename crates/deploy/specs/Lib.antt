pub mod Deployments
